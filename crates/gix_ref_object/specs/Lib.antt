pub mod Objects
pub mod Peeling
