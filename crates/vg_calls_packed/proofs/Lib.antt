pub mod Live
pub mod Typed
