pub mod Graph
pub mod Need
pub mod Within
pub mod Bounds
