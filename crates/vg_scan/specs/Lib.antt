pub mod Tables
pub mod Walk
