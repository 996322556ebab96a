pub mod Rounding
pub mod Tied
