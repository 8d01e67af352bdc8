pub mod Once
pub mod Numbers
pub mod Makers
pub mod Fits
pub mod Room
