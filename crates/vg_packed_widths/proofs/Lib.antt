pub mod Sizes
pub mod Procedures
