pub mod Lengths
pub mod Places
pub mod Reading
pub mod Rows
