pub mod Statuses
pub mod Files
pub mod Fetches
pub mod Sims
pub mod Whys
pub mod Plays
