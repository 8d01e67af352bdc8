mod Words
mod Found
