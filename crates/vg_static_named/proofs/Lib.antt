mod Columns
mod Types
mod Objects
mod Told
pub mod Sums
