pub mod Faults
mod Members
