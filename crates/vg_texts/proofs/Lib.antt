pub mod Ascii
pub mod Counts
pub mod Few
pub mod Known
pub mod Once
pub mod Spelled
pub mod Values
