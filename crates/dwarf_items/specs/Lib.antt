pub mod Answers
pub mod Firsts
pub mod Lacks
pub mod Scopes
pub mod Parts
