pub mod Typed
pub mod Ways
pub mod Enough
