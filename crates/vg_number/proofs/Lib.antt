pub mod Own
pub mod Walking
pub mod Sums
