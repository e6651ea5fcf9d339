pub mod Kept
pub mod Placed
mod Whole
