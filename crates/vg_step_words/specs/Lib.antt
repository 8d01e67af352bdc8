pub mod Words
pub mod Steps
pub mod Code
pub mod Procedures
