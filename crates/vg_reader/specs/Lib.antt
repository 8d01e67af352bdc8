pub mod Makers
pub mod Grown
pub mod Derivation
pub mod Answers
