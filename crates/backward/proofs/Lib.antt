-- Laws of the definitions.
pub mod Keeps
pub mod Same
