pub mod Count
pub mod Files
pub mod Fetch
pub mod Piece
pub mod InMemory
