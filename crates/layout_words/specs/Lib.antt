pub mod Kinds
pub mod Spellings
pub mod PlaceSpellings
pub mod Forms
pub mod Steps
