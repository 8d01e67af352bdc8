pub mod Sets
pub mod Held
pub mod Binding
pub mod Calling
