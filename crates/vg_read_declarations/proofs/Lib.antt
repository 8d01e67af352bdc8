pub mod OtherShapes
