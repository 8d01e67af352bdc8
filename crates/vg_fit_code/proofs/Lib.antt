pub mod Making
pub mod Expanding
pub mod Apt
pub mod Found
