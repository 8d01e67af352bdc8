pub mod Ticked
