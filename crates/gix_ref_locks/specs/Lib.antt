pub mod LockFiles
pub mod LockWalks
pub mod Removals
