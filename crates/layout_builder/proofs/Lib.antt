pub mod WithLast
pub mod TypeAdding
pub mod FuncAdding
pub mod Adding
pub mod Leading
pub mod FuncLeading
pub mod Following
pub mod AdvanceTexts
