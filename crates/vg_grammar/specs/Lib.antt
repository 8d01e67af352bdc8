pub mod Numbers
pub mod Tables
pub mod Looks
pub mod Marks
pub mod Derivation
