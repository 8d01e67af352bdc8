pub mod Finders
pub mod Found
