pub mod Backs
pub mod Digits
pub mod Nexts
