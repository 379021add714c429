pub mod NameLengths
pub mod RustLinks
pub mod CvTexts
pub mod CvLinks
pub mod CvEnds
pub mod Passing
pub mod Fits
pub mod SameNames
