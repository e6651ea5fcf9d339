pub mod Lines
pub mod ListLines
pub mod Names
