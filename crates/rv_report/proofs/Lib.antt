mod Circles
pub mod Floats
mod JsonEdges
mod JsonText
pub mod Pieces
mod Plain
mod Refused
