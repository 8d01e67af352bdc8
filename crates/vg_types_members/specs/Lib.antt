pub mod Selectors
pub mod Members
