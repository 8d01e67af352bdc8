pub mod Widths
pub mod Locals
