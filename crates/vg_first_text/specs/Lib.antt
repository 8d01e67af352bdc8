pub mod FirstSession
pub mod FirstText
pub mod FirstViews
pub mod Pieces
pub mod Shapes
