pub mod RustText
pub mod RustGrammar
