pub mod Above
pub mod EntryOrder
pub mod EntryRules
pub mod Checked
pub mod Counted
pub mod ShapeLists
