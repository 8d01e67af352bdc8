pub mod Typed
pub mod Computing
pub mod Fitting
