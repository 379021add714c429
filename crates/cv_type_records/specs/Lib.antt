pub mod Leaves
pub mod Members
pub mod MemberReaders
pub mod Contents
pub mod ContentReaders
pub mod Types
pub mod TypeReaders
