-- Laws of the definitions.
pub mod Answering
