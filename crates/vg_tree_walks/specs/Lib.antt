pub mod Whole
pub mod Lookups
pub mod Children
pub mod Walks
pub mod Classes
