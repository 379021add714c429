pub mod Forms
pub mod Stops
pub mod Runs
pub mod Progress
pub mod Lines
pub mod Answers
pub mod OneEnding
pub mod SamePrint
