pub mod Simple
pub mod Routines
pub mod Shifts
pub mod Product
pub mod Division
pub mod Numbers
