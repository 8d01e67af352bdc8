pub mod ByText
pub mod Judges
