pub mod Bytes
pub mod Digits
pub mod Ids
pub mod Orders
