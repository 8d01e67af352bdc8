pub mod Lookups
mod Chains
mod Asking
