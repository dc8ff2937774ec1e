pub mod Followed
pub mod Orders
pub mod Following
pub mod Peelings
