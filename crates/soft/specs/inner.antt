-- What private functions promise one another: no reader of a public contract needs these.
pub mod Cuts
pub mod Pack
