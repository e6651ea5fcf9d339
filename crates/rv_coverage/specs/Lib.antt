pub mod Counts
pub mod Coverages
pub mod Features
pub mod Kinds
pub mod Shares
pub mod Waits
