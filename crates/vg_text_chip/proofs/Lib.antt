mod Shapes
mod Walks
mod Registers
pub mod Named
