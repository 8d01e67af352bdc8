pub mod Records
pub mod Again
pub mod Spelling
pub mod Placing
