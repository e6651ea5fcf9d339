mod Blocks
mod Lists
mod Orders
pub mod Performed
mod Placed
pub mod Reading
mod Single
