pub mod Fitted
pub mod Once
pub mod Paid
pub mod Covered
pub mod Stepping
pub mod Costing
pub mod Cutting
