pub mod Measuring
pub mod Tallying
pub mod Locals
pub mod Counting
