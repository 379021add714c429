pub mod Roles
pub mod Tags
