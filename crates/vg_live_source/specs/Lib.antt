pub mod Members
pub mod Uses
pub mod Rules
pub mod Least
pub mod Making
pub mod Chains
pub mod Asking
