pub mod RangeForms
pub mod SymbolForms
pub mod SectionForms
pub mod SectionReads
