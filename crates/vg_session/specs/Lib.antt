pub mod Initialises
pub mod Ends
pub mod Playing
