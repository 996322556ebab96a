pub mod File
pub mod Header
pub mod Sections
pub mod Words
