pub mod Operators
pub mod Program
pub mod Meaning
pub mod Session
pub mod Held
