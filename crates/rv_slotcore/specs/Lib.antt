pub mod Places
pub mod Machine
pub mod Safe
pub mod Word
pub mod CoreIs
