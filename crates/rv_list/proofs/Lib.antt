pub mod FirstLines
pub mod Listed
mod NoFloats
