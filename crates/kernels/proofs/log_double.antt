-- What the proofs of the double logarithm's functions share.
pub mod Index
pub mod Low
pub mod Pattern
pub mod Positive
pub mod Steps
pub mod Words
