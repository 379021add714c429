pub mod Units
pub mod Lists
pub mod Frames
pub mod Scopes
pub mod Zones
