mod Few
mod Costs
mod Whole
