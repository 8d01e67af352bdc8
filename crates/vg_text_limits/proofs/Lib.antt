pub mod Limits
pub mod Standing
pub mod Parameters
pub mod FieldTypes
pub mod Calling
