mod Chains
mod Numbers
mod Cases
mod Operands
mod Computing
mod Shifting
mod Dividing
mod Accessing
mod Calling
pub mod Waiting
pub mod Entering
pub mod Whole
