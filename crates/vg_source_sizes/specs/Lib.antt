pub mod Arms
pub mod Sizes
