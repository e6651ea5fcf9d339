pub mod Entries
pub mod Exclusives
pub mod Found
pub mod Lowered
pub mod MoreMarks
pub mod Places
