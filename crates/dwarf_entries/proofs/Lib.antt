pub mod OneDescription
pub mod ProperNames
pub mod Rounds
