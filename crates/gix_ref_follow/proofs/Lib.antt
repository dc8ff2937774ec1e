pub mod Chains
pub mod Peels
pub mod Steps
pub mod Stores
