pub mod Marked
pub mod Growing
