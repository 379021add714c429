pub mod Seen
pub mod Named
pub mod Ends
pub mod Pointers
pub mod Lists
