-- What the proofs of the logarithms of a single share.
mod Gap
mod Joined
mod Low
mod Pattern
