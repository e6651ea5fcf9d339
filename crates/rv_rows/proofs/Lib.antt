pub mod Words
pub mod Scan
pub mod Sweep
pub mod Laying
