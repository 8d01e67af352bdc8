pub mod Doing
pub mod RowLists
pub mod Pairing
