-- Laws of the definitions, for the proofs of the code here and above.
pub mod Literals
pub mod Nan
pub mod Refusals
pub mod Inside
