pub mod Graphs
pub mod Methods
pub mod Calls
pub mod Bounds
