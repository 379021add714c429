pub mod PadSizes
pub mod ToEnd
pub mod MemberForms
pub mod MemberLists
pub mod TypePuts
pub mod Sections
