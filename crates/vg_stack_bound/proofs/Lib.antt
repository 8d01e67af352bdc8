pub mod Awake
pub mod Holding
pub mod Memory
