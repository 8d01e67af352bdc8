pub mod Fields
pub mod Items
pub mod Starts
pub mod Arrays
