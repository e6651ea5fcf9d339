pub mod Final
pub mod Forward
pub mod Suffice
