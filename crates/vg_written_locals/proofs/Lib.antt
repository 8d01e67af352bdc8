mod Kids
mod Made
mod Renumbered
pub mod Texts
