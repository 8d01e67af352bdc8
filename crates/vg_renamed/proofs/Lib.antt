pub mod Lists
pub mod Fields
pub mod Pieces
pub mod Steps
pub mod Calls
pub mod Named
