pub mod Stated
pub mod Flashes
