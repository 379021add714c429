pub mod OneReading
pub mod Sound
pub mod SomeReading
