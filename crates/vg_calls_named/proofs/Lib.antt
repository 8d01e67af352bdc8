pub mod Steps
pub mod Forth
pub mod Back
pub mod Whole
pub mod Spelled
