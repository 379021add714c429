pub mod Rules
pub mod Lle
pub mod Rle
pub mod Kinds
pub mod Operands
pub mod Entries
pub mod Locations
pub mod Readers
