pub mod Fields
pub mod Series
pub mod RecordForms
pub mod Contents
pub mod OneReading
pub mod PutForms
pub mod WholeSections
pub mod Counts
