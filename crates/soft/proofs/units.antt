-- What the proofs of `units` show of a finite float.
pub mod Value
