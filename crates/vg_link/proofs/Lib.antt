pub mod Before
pub mod Handlers
pub mod Imaging
pub mod Beginning
