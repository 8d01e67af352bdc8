pub mod Shifted
pub mod Put
