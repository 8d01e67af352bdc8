pub mod Rows
pub mod LoopPieces
pub mod Along
pub mod Failing
