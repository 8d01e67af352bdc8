pub mod Standing
pub mod Bodies
