pub mod Harts
pub mod Log
pub mod Stored
pub mod Whole
