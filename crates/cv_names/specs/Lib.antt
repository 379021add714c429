pub mod CvText
pub mod Closings
pub mod CvGrammar
