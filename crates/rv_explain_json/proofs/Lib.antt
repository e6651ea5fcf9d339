mod Floats
mod Parts
