pub mod Dispatch
pub mod Codes
