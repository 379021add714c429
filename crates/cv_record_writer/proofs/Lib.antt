pub mod Fields
pub mod Lists
pub mod RecordSpelled
pub mod RangePuts
pub mod SymbolPuts
