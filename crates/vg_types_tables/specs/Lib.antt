pub mod Views
pub mod Declares
pub mod Promises
pub mod Codes
pub mod Fitting
pub mod Sizes
