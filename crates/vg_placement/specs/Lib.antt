pub mod Columns
pub mod Needs
