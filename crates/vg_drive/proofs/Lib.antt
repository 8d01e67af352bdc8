pub mod Builds
pub mod Tries
pub mod Commands
pub mod Notes
pub mod Sources
