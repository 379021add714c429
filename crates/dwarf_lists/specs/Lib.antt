pub mod Offsets
pub mod Texts
pub mod Places
pub mod Ranges
pub mod Locations
pub mod Readers
pub mod Written
