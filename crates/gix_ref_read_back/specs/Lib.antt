pub mod EditedReadings
pub mod FoundReferences
pub mod ListedItems
pub mod ListedReadings
pub mod Outside
pub mod PlainPromises
pub mod WholeRuns
