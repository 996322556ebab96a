-- Laws of the definitions.
pub mod Literals
