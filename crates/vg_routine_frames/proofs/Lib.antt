pub mod Routines
pub mod Starts
pub mod Finders
