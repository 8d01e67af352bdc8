pub mod Covered
pub mod Few
pub mod Joined
pub mod Placed
