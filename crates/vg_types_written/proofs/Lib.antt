pub mod Methods
pub mod Written
