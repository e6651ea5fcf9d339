pub mod Names
pub mod Rechecks
pub mod Texts
pub mod Watches
