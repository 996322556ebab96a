-- What the proofs of `pow` share.
pub mod Domain
pub mod Double
pub mod Far
pub mod One
pub mod Single
pub mod Steps
