pub mod Columns
pub mod Prefix
pub mod Card
