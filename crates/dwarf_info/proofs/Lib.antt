pub mod Splits
pub mod Within
pub mod Breaches
pub mod TypeDies
pub mod Describing
pub mod Statics
pub mod SomeReading
