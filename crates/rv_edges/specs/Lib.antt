pub mod Histories
pub mod Indexes
pub mod Kept
pub mod KnownEvents
pub mod OwnLinks
pub mod Ties
