pub mod Script
pub mod Traces
pub mod Walk
