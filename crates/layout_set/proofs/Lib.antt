pub mod Firsts
pub mod SizeSteps
pub mod ExactNumbers
pub mod SizeLevels
