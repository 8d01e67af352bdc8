pub mod Typed
pub mod Live
