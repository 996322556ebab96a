-- What the proofs of ln share.
pub mod Double
pub mod One
pub mod Single
pub mod Value
pub mod Whole
