pub mod Does
pub mod Whole
pub mod Memory
pub mod Holds
