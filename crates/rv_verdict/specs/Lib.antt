pub mod Known
pub mod Raising
