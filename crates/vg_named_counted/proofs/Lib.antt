pub mod Steps
pub mod Methods
