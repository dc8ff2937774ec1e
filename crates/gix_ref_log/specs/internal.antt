pub mod LogFast
pub mod Parts
