pub mod Blocks
pub mod Shapes
pub mod Steps
pub mod Flat
pub mod Expanded
