pub mod ShiftRoutines
pub mod ProductRoutine
pub mod Keeping
pub mod DivisionLaws
pub mod DivisionRoutine
pub mod Numbered
