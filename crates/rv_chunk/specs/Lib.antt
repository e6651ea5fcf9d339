pub mod ChunkTexts
pub mod Chunks
pub mod Packing
