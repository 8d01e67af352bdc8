mod Asking
mod Finding
mod Making
mod Walking
pub mod Constructing
mod Gathering
