pub mod Owners
