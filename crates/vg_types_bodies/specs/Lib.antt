pub mod Parameters
pub mod Bodies
pub mod Initial
pub mod Fields
pub mod Makings
pub mod Routines
