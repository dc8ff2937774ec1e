pub mod AskedEdits
pub mod DueLines
pub mod LineCauses
pub mod MadeLogs
pub mod internal
