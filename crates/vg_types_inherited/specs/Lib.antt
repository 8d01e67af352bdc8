pub mod Asked
pub mod Dispatches
