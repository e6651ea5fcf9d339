pub mod Misfits
pub mod Noted
pub mod Stored
pub mod Told
