pub mod Shown
pub mod Refusal
