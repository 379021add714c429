pub mod Units
pub mod Views
pub mod Laws
pub mod Parents
pub mod Children
pub mod Attributes
pub mod Handles
