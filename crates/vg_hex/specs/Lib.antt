pub mod HexText
pub mod HexRecords
pub mod HexImage
pub mod Walk
