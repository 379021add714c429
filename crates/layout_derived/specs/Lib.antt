pub mod DerivedTexts
