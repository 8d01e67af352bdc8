pub mod Ranges
pub mod Flow
pub mod Looked
