pub mod WaysUp
pub mod Listed
