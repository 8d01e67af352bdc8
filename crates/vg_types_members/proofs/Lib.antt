pub mod Growing
pub mod Makings
