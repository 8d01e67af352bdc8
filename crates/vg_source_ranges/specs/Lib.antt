pub mod Ranges
pub mod Routines
pub mod Spelled
