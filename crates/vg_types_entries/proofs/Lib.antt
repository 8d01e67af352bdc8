mod Tests
mod Finds
mod Finding
mod Keys
