pub mod Open
pub mod Noted
