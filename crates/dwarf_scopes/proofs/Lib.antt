pub mod Above
pub mod OriginSteps
pub mod Parts
