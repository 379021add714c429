pub mod NameLengths
pub mod RustTexts
