pub mod Failing
pub mod FoundLocks
pub mod LockFolders
pub mod LockPlaces
pub mod Removing
