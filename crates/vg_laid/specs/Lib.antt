pub mod Linked
pub mod Images
pub mod Laid
