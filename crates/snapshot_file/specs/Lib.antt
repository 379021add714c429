pub mod Memory
pub mod Registers
pub mod Spans
pub mod Reading
pub mod Snapshots
pub mod Faults
pub mod Claims
