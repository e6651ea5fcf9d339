pub mod Accesses
pub mod Indexes
pub mod Linked
pub mod Lookups
pub mod Own
pub mod Reserved
pub mod VersionLinks
pub mod Words
