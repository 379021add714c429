pub mod FilesByName
pub mod Fronts
pub mod Steps
pub mod Digits
