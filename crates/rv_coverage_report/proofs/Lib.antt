mod NoFloats
mod Parts
