pub mod Nodes
pub mod Grows
pub mod Asked
