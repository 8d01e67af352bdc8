pub mod Few
pub mod Light
mod Whole
pub mod Widths
