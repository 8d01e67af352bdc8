mod Made
mod Parts
mod Renumbered
pub mod Texts
