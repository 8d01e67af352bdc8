pub mod Pushed
pub mod Stacked
