mod Costs
mod Places
