pub mod Asked
pub mod Bodies
pub mod Walked
pub mod Fields
pub mod Homes
