pub mod Places
pub mod Intervals
pub mod Ways
pub mod Numbers
