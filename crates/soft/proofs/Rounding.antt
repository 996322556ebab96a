-- Laws of rounding, each over the format: what the proofs here and those of the kernels cite.
pub mod Basics
pub mod Closest
pub mod Pattern
pub mod Place
pub mod Sticky
pub mod Sum
pub mod Relative
pub mod Exponent
