pub mod Alike
mod Assembling
mod Counted
mod Locals
mod Together
