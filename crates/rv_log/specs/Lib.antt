pub mod Accesses
pub mod Numbers
pub mod Records
pub mod Steps
