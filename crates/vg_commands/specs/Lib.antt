pub mod Endings
pub mod Commands
pub mod Texts
pub mod Leaves
pub mod Shown
pub mod Asked
