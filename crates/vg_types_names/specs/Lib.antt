pub mod Declarations
pub mod Naming
pub mod Lookups
