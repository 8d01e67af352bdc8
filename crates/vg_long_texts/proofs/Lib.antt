mod Long
mod Unbuilt
