mod Items
pub mod Programs
