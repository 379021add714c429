pub mod CvLevels
pub mod Closings
pub mod CvLaws
pub mod CvMeaning
pub mod CvSpelled
pub mod CvWhole
