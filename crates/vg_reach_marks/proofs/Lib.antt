pub mod Marking
pub mod Order
