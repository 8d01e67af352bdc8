pub mod Registers
pub mod Memory
pub mod Run
pub mod View
pub mod Start
pub mod Worked
