pub mod Json
pub mod JsonData
pub mod Outcomes
pub mod Texts
pub mod Writing
