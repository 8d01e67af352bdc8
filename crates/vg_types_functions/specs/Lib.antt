pub mod Functions
pub mod Rows
