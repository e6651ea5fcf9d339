pub mod Answers
pub mod Asked
pub mod Command
pub mod Parsed
