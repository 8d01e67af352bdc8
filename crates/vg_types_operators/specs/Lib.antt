pub mod Judged
pub mod Operators
pub mod Operands
pub mod Prefixes
pub mod Casts
