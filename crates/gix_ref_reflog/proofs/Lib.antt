pub mod BlockedPaths
pub mod Deciding
pub mod LeafSteps
pub mod LineSteps
pub mod LogPaths
pub mod OwnNames
pub mod ShortPaths
