-- Laws of the definitions, for the proofs of the code here.
pub mod Tests
