pub mod Common
pub mod Entries
pub mod Getters
pub mod Options
pub mod Places
pub mod Values
