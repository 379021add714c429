pub mod Entries
pub mod Links
pub mod Invariant
pub mod Siblings
pub mod Forests
