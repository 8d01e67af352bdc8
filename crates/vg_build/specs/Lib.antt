pub mod Image
pub mod Answer
pub mod Mirrors
