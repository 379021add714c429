pub mod Sites
pub mod Named
