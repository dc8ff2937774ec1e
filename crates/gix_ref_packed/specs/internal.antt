pub mod Entries
pub mod Parts
