pub mod Runs
pub mod Names
pub mod Spelled
mod Nodes
mod Parts
mod Depth
pub mod Texts
pub mod Placed
mod Legal
pub mod Means
