pub mod Additions
pub mod LineCounts
