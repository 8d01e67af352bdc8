pub mod Fewer
pub mod FewerCode
pub mod Rows
pub mod Above
pub mod Pushed
pub mod Lowered
pub mod Whole
