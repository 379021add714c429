pub mod Ends
pub mod SetTypes
pub mod BaseTypes
pub mod Links
