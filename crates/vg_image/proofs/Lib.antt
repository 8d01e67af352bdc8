pub mod Emitted
pub mod Parts
pub mod Slots
