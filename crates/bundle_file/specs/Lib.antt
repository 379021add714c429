pub mod Rules
pub mod Sections
pub mod Parts
pub mod Files
pub mod Laws
pub mod Readers
