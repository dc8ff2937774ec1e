pub mod ChangedKeys
pub mod Keeping
pub mod LockSteps
