-- Laws of the definitions.
pub mod Answering
pub mod Known
pub mod Picked
pub mod Verdicts
