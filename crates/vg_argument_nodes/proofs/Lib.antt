mod Kept
mod Parts
mod Renumbered
mod Texts
