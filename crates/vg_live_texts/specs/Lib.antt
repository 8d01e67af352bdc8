pub mod Delegated
pub mod Dispatched
