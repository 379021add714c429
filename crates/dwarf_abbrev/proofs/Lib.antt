pub mod Attrs
pub mod Tables
pub mod Loops
pub mod Codes
pub mod Written
