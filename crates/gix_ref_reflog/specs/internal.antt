pub mod Decided
pub mod Leaves
pub mod LineSteps
pub mod SeenLogs
