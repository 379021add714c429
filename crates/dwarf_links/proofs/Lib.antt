pub mod EndSteps
pub mod Counts
pub mod SetTypes
pub mod BaseTypes
pub mod TypeRules
