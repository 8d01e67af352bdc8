mod Pieces
mod Bodies
mod Methods
