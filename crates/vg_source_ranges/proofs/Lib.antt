pub mod Numbers
pub mod Parts
pub mod Bodies
pub mod Routines
