pub mod Begins
pub mod Nexts
pub mod Readings
pub mod Stacks
