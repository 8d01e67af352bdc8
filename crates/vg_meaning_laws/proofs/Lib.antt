pub mod Same
pub mod Safe
pub mod Told
pub mod Grows
pub mod Longer
pub mod Spent
