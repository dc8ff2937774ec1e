pub mod Edits
pub mod Listing
pub mod Power
