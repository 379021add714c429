pub mod ImageLaws
pub mod Lacking
pub mod OutcomesIn
pub mod Checking
pub mod Reads
pub mod Walking
