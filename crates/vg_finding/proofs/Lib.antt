pub mod Placed
pub mod Entering
pub mod Pushing
pub mod Finding
pub mod Stepping
pub mod Running
pub mod Sound
pub mod Instructions
