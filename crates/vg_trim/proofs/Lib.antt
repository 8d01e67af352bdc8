pub mod Counted
pub mod Ranged
pub mod Flowing
pub mod Soundness
