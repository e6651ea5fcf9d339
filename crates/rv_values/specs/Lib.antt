pub mod Index
pub mod Issues
pub mod Memory
pub mod Values
