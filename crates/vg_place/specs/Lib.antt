pub mod Arrays
pub mod Counting
pub mod Placing
