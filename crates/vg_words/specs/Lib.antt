pub mod Items
pub mod Numbers
pub mod Commands
pub mod Views
pub mod Writing
pub mod Walk
