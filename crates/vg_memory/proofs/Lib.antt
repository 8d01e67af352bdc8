pub mod SessionsAgree
pub mod Outcomes
pub mod Keeping
pub mod Never
pub mod Peaks
