pub mod Claims
pub mod Heads
pub mod Progress
