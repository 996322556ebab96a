-- K5, piece by piece.
pub mod States
pub mod Back
pub mod Prefix
pub mod Weights
pub mod Card
pub mod Good
pub mod Faults
pub mod PrefixFault
pub mod CardFault
pub mod Calls
pub mod Whole
pub mod Modes
pub mod PrefixModes
pub mod CardModes
