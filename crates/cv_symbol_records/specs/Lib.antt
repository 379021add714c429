pub mod SymLeaves
pub mod Ranges
pub mod RangeReaders
pub mod Symbols
pub mod SymbolReaders
pub mod Subsections
pub mod SubsectionReaders
pub mod Results
