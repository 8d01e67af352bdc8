pub mod Entrances
pub mod Same
pub mod Rows
