pub mod Marked
pub mod First
