mod Pairs
mod Pieces
mod Bodies
mod Methods
