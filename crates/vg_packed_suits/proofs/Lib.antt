pub mod Numbers
pub mod Filled
pub mod Noted
pub mod Suited
pub mod Bodies
