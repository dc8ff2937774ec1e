pub mod Applying
pub mod Merging
pub mod Passing
pub mod Runs
