pub mod Scopes
pub mod Words
