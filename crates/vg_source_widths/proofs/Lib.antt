mod Scopes
pub mod Bodies
pub mod Methods
pub mod Added
