pub mod Pops
pub mod Parting
