mod Branches
mod Carried
mod Merging
mod Parts
mod Stored
mod Traces
mod Valued
mod Whole
