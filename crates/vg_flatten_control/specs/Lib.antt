pub mod Flat
pub mod Joining
pub mod Weights
