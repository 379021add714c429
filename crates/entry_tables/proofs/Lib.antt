pub mod SameEntries
