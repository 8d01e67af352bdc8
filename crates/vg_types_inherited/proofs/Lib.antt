mod Tests
mod Finds
mod Made
mod Rules
mod Inheriting
mod Kept
pub mod Dispatching
