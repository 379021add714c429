pub mod Indexed
pub mod Turns
pub mod ListsExact
pub mod Loops
pub mod Answered
pub mod Written
