pub mod Uses
pub mod Rules
pub mod Sets
pub mod Least
