pub mod Calls
pub mod Kernels
pub mod Logarithm
pub mod Power
pub mod inner
