pub mod Reaches
pub mod Chains
pub mod Counted
pub mod Firsts
