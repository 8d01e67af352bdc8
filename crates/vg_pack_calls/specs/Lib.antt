pub mod Procedures
pub mod Asked
pub mod Receivers
pub mod Cases
