pub mod PlainSteps
pub mod Standing
pub mod Runs
pub mod Instructions
pub mod FlagLaws
pub mod LowestAddress
pub mod Agreeing
