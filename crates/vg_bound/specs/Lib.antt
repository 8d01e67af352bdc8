pub mod Graph
pub mod Searched
pub mod Searching
pub mod Kept
