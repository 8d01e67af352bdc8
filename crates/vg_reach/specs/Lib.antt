pub mod Reaches
pub mod Looking
