pub mod Told
pub mod Putting
pub mod Puts
