pub mod Judged
pub mod Starting
pub mod Faults
pub mod Living
pub mod Fitting
pub mod Room
