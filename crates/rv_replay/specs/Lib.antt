pub mod Replays
pub mod Strengths
