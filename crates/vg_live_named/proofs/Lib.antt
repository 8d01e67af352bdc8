pub mod Steps
pub mod Cells
pub mod There
pub mod Names
pub mod Held
pub mod Forth
pub mod Back
pub mod Whole
