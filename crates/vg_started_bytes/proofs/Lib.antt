mod Rows
mod Placed
mod Whole
pub mod Ends
pub mod Stands
