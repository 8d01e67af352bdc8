pub mod Weights
pub mod Running
