-- Laws of the definitions, for the proofs of the code and of the promises.
pub mod Cases
pub mod Hi
pub mod Natural
pub mod Sizes
