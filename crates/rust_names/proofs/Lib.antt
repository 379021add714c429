pub mod Depth
pub mod RustLevels
pub mod RustLaws
pub mod RustMeaning
pub mod RustSpelled
pub mod RustWhole
