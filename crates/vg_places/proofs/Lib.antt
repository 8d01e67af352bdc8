mod Counted
mod Found
mod Passing
