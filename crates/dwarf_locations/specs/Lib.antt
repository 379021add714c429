pub mod Rules
pub mod Places
pub mod Pieces
pub mod Expressions
pub mod Lists
pub mod Laws
pub mod Steps
