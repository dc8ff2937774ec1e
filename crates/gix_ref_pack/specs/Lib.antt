pub mod KeptObjects
pub mod KnownObjects
pub mod LooseObjects
pub mod PackWords
pub mod Packings
pub mod TableRows
