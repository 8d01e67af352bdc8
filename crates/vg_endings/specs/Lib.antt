pub mod InRun
