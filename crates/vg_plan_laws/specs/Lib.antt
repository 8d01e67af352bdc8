pub mod Stands
pub mod Made
