pub mod Entries
pub mod Patterns
