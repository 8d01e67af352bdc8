pub mod Nodes
pub mod Judgements
pub mod Reached
pub mod Named
