pub mod Columns
pub mod Default
pub mod Fits
