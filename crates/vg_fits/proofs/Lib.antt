mod Classes
mod Fields
pub mod Answering
