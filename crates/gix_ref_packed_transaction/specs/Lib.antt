pub mod Changes
pub mod PackedLosses
pub mod PackedTransactions
pub mod RecordChanges
pub mod Refusals
pub mod Repacks
pub mod internal
