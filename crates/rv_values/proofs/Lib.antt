pub mod Agreement
pub mod Known
pub mod Search
pub mod Single
pub mod Writers
