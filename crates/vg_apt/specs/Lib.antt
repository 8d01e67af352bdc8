pub mod Apt
