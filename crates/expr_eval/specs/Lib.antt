pub mod Results
pub mod Invariant
pub mod Operands
pub mod Addresses
