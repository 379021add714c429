pub mod Named
pub mod Bounded
