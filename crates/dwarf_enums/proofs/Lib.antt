pub mod Beside
pub mod Elsewhere
pub mod Members
pub mod TwoMembers
