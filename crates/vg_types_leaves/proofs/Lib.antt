pub mod Numerals
pub mod Members
pub mod Types
pub mod Reading
pub mod NameLaws
pub mod Strings
pub mod Suffixes
