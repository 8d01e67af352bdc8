pub mod Calls
pub mod Walking
