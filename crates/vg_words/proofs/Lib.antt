pub mod Firsts
pub mod Digits
pub mod Counts
pub mod Rereading
