pub mod ProperNames
pub mod Lowers
pub mod Twos
