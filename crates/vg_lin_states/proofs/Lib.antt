pub mod Bytes
pub mod Fetching
pub mod Locals
pub mod Narrows
pub mod Newest
pub mod Dividing
