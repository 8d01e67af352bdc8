pub mod Machines
pub mod Entering
