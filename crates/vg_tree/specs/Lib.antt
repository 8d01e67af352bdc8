pub mod Held
pub mod HeldMade
pub mod Nothing
