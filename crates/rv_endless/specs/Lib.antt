pub mod Answers
pub mod Exclusives
pub mod Forgetting
pub mod Runs
pub mod Steps
