pub mod Enumerators
pub mod steps
