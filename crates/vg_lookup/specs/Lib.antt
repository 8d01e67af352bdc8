pub mod Lookup
pub mod Mirrors
