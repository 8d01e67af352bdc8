pub mod Measured
pub mod Suits
pub mod Methods
