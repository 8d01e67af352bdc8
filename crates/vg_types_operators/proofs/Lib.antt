pub mod Giving
pub mod Comparing
pub mod Leading
pub mod Casting
pub mod Prefixing
