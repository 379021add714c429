pub mod EntriesExact
