pub mod Bytes
pub mod Following
mod Tables
mod Bodies
mod Found
mod Fit
mod Entries
pub mod Linking
pub mod Unlinked
pub mod Does
pub mod Needs
mod Measured
mod Refusals
pub mod Memory
