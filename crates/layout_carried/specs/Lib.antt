pub mod Carried
pub mod ShowsSame
