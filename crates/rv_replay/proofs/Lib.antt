pub mod Common
pub mod Passes
pub mod InconsistentRefusals
pub mod Strengths
