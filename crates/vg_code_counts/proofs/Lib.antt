pub mod More
pub mod Renamed
