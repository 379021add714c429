pub mod OpenScopes
pub mod OperationParts
