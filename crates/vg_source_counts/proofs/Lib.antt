mod Moves
mod Pieces
pub mod Bodies
pub mod Methods
