pub mod Followed
pub mod Scanned
