pub mod Setting
pub mod Follows
