pub mod Measures
pub mod Forms
pub mod Counts
