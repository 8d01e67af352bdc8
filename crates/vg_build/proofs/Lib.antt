pub mod Rooms
pub mod Images
pub mod Faults
