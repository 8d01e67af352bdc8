pub mod Entries
pub mod Entering
