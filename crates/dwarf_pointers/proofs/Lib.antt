pub mod SameTests
pub mod Links
pub mod Pointees
pub mod Integers
pub mod ChildLists
pub mod FatPointers
