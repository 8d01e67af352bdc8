mod Renaming
mod OpenCalls
