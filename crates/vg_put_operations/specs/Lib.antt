pub mod Coded
pub mod Mirrors
