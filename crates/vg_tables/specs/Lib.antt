pub mod Entries
pub mod Bytes
