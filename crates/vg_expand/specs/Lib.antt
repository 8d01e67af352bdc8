pub mod Called
pub mod Unpushed
pub mod Expansion
pub mod Runs
pub mod Flow
pub mod Code
pub mod Refusals
