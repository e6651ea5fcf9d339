pub mod Covering
pub mod Indexing
