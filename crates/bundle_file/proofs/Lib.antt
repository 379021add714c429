pub mod Exact
pub mod Files
pub mod Written
