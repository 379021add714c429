pub mod Honest
pub mod Lies
