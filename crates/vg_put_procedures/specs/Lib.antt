pub mod Emitted
