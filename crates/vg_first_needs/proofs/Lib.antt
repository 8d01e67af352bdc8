pub mod Constants
pub mod Stacks
