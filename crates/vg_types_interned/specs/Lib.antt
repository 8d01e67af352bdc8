pub mod Types
pub mod Rows
