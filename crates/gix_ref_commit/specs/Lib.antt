pub mod Cleared
pub mod CommittedTrees
pub mod Decided
pub mod Entries
pub mod Failures
pub mod LogEffects
pub mod Unfinished
pub mod internal
