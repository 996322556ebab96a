pub mod Headers
pub mod Sizes
