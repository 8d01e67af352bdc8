pub mod Left
pub mod Targets
pub mod Routines
pub mod Programs
