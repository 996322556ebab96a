-- Why the distances hold.
pub mod power
pub mod logarithm
pub mod pow
pub mod Finish
pub mod Exp
pub mod Ends
pub mod Ln
pub mod minus
pub mod Kernels
