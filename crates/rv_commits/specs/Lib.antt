pub mod Awaited
pub mod Harts
pub mod Made
pub mod Owns
pub mod Queues
pub mod Rows
pub mod Settled
pub mod Whole
