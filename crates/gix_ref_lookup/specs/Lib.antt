pub mod CleanPaths
pub mod LookupCalls
pub mod Lookups
pub mod LooseFiles
pub mod LooseText
pub mod Reflogs
pub mod StoreLayout
