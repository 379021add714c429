pub mod FuncLaws
pub mod LineLaws
pub mod LineEnds
pub mod Texts
pub mod FuncTexts
pub mod IsSets
pub mod Heads
pub mod LastItems
