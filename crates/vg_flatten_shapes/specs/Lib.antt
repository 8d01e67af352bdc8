pub mod Shapes
pub mod Widths
pub mod Popped
pub mod Blocks
pub mod Made
pub mod Laying
