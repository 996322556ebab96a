pub mod Exact
-- Laws of the table, for the proofs of the kernels.
pub mod Every
pub mod Entries
pub mod First
mod Indices
