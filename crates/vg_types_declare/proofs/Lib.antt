mod Declaring
mod Dispatching
