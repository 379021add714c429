pub mod Sizes
pub mod Structures
