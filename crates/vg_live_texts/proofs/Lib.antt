mod Why
mod Order
mod Found
