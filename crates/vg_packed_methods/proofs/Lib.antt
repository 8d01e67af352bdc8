pub mod Moved
pub mod Procedures
