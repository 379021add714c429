pub mod OwnTexts
pub mod ScopeSteps
pub mod JoinedTexts
pub mod WordTexts
