pub mod Paid
