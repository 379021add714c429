pub mod MemberForms
pub mod Contents
pub mod Types
