pub mod Outlines
pub mod Numbers
pub mod Alike
pub mod Classes
pub mod Passing
