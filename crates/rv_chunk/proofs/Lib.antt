pub mod ChunkBack
pub mod ChunkFill
pub mod ChunkRead
pub mod ChunkTest
