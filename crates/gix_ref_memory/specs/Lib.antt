pub mod Calls
pub mod Changes
pub mod Laws
pub mod Memory
pub mod Reader
pub mod Turns
pub mod internal
