pub mod IsNamed
pub mod Stands
pub mod NamesTell
