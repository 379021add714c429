pub mod Contents
pub mod SymbolBytes
pub mod Symbols
pub mod Appended
