pub mod Values
pub mod Cells
pub mod Pieces
pub mod Computing
pub mod Steps
pub mod Calls
pub mod Runs
