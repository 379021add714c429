pub mod Lying
pub mod Ranges
pub mod Leaves
pub mod LeavesBack
pub mod Holders
