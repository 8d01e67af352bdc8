pub mod Few
pub mod Moved
