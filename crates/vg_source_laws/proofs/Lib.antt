pub mod Steps
pub mod Traces
pub mod MoreClock
pub mod Histories
pub mod SpentClock
