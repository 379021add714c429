pub mod Said
pub mod Variants
