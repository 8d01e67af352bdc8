pub mod Counting
pub mod Costing
pub mod Numbered
pub mod Few
pub mod Limited
pub mod Alike
pub mod Bounded
