pub mod Storing
pub mod Pieces
pub mod Steps
pub mod Runs
