pub mod Bytes
pub mod Fitting
pub mod Noted
pub mod Payable
