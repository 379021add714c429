pub mod Faults
pub mod Files
pub mod Puts
pub mod Numbers
pub mod Lists
pub mod MemInputs
pub mod MemSink
pub mod formers
