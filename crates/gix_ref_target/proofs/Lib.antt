pub mod LocationLemmas
pub mod PackedRecordLemmas
