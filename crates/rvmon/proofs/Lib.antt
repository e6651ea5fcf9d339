pub mod Ends
pub mod Fields
mod Told
