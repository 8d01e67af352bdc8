pub mod Counted
pub mod Each
