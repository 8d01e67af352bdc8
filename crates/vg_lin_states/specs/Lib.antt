pub mod Narrow
pub mod Programs
pub mod Doing
pub mod Arguments
