pub mod Candidates
pub mod Categories
pub mod ComposedNames
pub mod DeviceNames
pub mod NameGrammar
pub mod Names
pub mod Namespaces
