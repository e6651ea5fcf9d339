pub mod Backings
pub mod Endings
pub mod Listing
pub mod Starting
