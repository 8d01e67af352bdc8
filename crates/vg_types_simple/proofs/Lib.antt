pub mod MoreLocals
pub mod Judging
pub mod Typing
pub mod Written
pub mod Asking
