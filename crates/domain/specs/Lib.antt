pub mod Doubles
pub mod Floats
pub mod Limits
pub mod Refusals
pub mod Taken
pub mod Weights
