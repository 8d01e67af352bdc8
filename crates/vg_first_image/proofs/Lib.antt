pub mod Run
pub mod Whole
