pub mod Typed
pub mod Moved
pub mod Components
pub mod Entries
