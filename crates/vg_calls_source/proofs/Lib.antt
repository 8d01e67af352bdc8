pub mod Paths
pub mod Rounds
pub mod Alike
