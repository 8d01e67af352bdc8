pub mod Counted
pub mod Rowed
pub mod Steps
