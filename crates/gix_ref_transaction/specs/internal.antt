pub mod SplitRounds
pub mod StuckRecords
