pub mod Language
pub mod Session
pub mod Example
pub mod Renaming
pub mod Plain
pub mod Openings
