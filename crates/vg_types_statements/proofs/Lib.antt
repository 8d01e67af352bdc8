pub mod Typing
pub mod Rows
pub mod ArmCodes
pub mod ArmRows
