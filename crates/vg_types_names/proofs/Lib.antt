mod Passing
pub mod Lookups
