pub mod Short
pub mod Fewest
pub mod Pushes
