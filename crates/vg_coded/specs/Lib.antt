pub mod Numbers
pub mod Kept
pub mod Widths
pub mod Operators
