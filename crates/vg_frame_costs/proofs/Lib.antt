pub mod Counted
pub mod Fit
pub mod Grown
pub mod Newest
pub mod Paid
pub mod Pushed
pub mod Sized
