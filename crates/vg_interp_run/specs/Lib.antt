pub mod Around
pub mod Run
pub mod Calling
pub mod Exits
