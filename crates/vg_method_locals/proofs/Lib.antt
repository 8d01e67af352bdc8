mod Counting
mod Kept
mod Grown
mod Methods
mod Free
mod Parts
mod Renumbered
mod Texts
