pub mod Explained
pub mod Reports
