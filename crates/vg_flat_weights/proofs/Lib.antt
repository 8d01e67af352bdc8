mod Untested
mod Light
mod Ways
pub mod Whole
