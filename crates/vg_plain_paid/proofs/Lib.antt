pub mod Rows
mod Same
mod Methods
pub mod Programs
