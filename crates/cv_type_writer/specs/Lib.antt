pub mod MemberBytes
pub mod TypeBytes
pub mod Forms
pub mod TypeRecords
pub mod Appended
pub mod Sections
