pub mod Cuts
pub mod Exclusives
pub mod Marked
