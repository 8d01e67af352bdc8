pub mod Layout
pub mod Pass
pub mod Allowed
pub mod Packs
pub mod Laid
