pub mod Tables
pub mod Covered
pub mod Stands
pub mod Related
pub mod Depth
pub mod Followed
pub mod Reset
pub mod Runs
