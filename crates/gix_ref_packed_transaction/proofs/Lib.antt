pub mod ChangeLemmas
pub mod EditChanges
pub mod KeyLemmas
pub mod LockSteps
pub mod Losses
pub mod Opening
pub mod RecordChanges
pub mod RepackLemmas
