pub mod Held
pub mod Named
pub mod Nodes
pub mod Texts
pub mod Utf8
