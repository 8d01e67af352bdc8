pub mod Assembled
pub mod Checks
pub mod Passes
