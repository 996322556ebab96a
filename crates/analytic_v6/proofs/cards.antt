pub mod Columns
pub mod Entry
pub mod Over
