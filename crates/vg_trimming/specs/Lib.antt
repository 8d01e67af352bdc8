pub mod Facts
pub mod Walking
pub mod Trimming
pub mod Trimmed
pub mod Runs
