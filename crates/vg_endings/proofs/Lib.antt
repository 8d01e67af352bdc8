pub mod Staying
pub mod Ending
pub mod Sessions
