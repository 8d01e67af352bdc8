pub mod Inherited
pub mod Classes
pub mod Slots
