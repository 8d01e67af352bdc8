pub mod Temps
pub mod Choices
pub mod Taking
pub mod Sizes
