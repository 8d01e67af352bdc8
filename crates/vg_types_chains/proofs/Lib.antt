mod Few
pub mod Closing
mod Walking
