pub mod Spelled
pub mod Decoded
