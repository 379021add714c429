pub mod Chunks
pub mod Ranges
pub mod PlaceNumbers
pub mod OneChunk
pub mod ByteNumbers
