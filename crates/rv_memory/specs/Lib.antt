pub mod Laws
pub mod Reads
pub mod Stores
pub mod Words
