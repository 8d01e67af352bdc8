pub mod Cases
pub mod Procedures
