pub mod Run
pub mod Walk
