pub mod Chained
pub mod Pairs
pub mod Spans
pub mod SortedNumbers
