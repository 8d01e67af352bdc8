pub mod Calling
pub mod Arrays
pub mod Elements
pub mod Settling
