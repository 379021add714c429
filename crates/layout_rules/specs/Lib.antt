pub mod Faults
pub mod LineRules
