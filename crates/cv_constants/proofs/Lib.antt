pub mod Ends
pub mod Outside
pub mod Constants
