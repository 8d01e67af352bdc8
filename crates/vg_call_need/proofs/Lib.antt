pub mod Edges
pub mod Beginnings
pub mod Needs
pub mod Calls
pub mod Making
pub mod Spent
