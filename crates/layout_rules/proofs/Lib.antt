pub mod LowestItems
pub mod LowestLines
pub mod LowestWords
pub mod ItemRules
pub mod Unfit
pub mod Fit
