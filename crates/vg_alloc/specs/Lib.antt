pub mod Locations
pub mod Frames
