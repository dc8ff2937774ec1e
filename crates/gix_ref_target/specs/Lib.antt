pub mod Layout
pub mod Locations
pub mod Orders
pub mod PackedRecords
pub mod RefLayout
pub mod Targets
