pub mod Nodes
pub mod Links
pub mod Arguments
