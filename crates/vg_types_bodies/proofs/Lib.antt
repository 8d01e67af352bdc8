pub mod InScope
pub mod Others
pub mod Signatures
pub mod Initials
pub mod Makings
pub mod Routines
