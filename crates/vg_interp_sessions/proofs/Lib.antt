pub mod Ends
pub mod Outgoing
