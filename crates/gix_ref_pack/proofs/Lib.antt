pub mod Choosing
pub mod KeptReadings
pub mod PackWordLemmas
pub mod PackedStores
pub mod TableLines
