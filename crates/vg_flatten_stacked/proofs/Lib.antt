pub mod Ways
pub mod CalmCode
