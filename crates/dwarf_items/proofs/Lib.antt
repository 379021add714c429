pub mod Faults
pub mod Places
pub mod LowFirsts
pub mod NamesAround
pub mod OriginSteps
pub mod Rows
pub mod PartLists
