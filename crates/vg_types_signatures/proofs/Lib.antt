mod Written
mod Seen
mod Registering
mod Membering
mod Declaring
