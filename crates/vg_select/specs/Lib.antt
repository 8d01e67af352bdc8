pub mod Selected
pub mod Within
pub mod Leadings
