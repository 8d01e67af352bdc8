pub mod Spotting
pub mod Sweeping
