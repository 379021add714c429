pub mod Digits
pub mod Times
pub mod Variants
