-- Laws of the definitions, for the proofs of the code here and above.
pub mod Accepted
pub mod All
pub mod Box
pub mod Copy
pub mod Tables
