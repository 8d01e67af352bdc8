pub mod OtherShapes
pub mod Assigning
