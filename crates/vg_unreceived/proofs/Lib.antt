pub mod Unread
pub mod Receiving
