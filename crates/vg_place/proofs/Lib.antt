pub mod Rows
pub mod Noting
pub mod Glue
