pub mod First
pub mod Hexadecimal
pub mod Parts
pub mod Pieces
pub mod Registers
