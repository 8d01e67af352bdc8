pub mod Nodes
pub mod Arms
