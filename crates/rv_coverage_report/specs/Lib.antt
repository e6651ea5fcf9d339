pub mod JsonData
pub mod Texts
