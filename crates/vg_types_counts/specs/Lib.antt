pub mod Extents
pub mod Tallies
pub mod Answer
