pub mod Beginnings
pub mod Nexts
pub mod OneReading
pub mod ReadBack
