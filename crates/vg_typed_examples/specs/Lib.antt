pub mod Writing
pub mod StoreToNull
pub mod Dispatch
pub mod Arrays
