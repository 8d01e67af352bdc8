pub mod Bodies
pub mod Least
pub mod Runs
