pub mod Expanding
pub mod Keeping
pub mod Openings
pub mod Pushing
pub mod Widths
pub mod Finding
pub mod Frames
pub mod Methods
