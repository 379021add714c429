pub mod OpenScopes
pub mod OperationParts
pub mod Follows
pub mod Places
