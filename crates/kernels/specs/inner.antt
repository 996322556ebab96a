-- What private functions promise one another: no reader of a public contract needs these.
pub mod Fields
pub mod Logs
pub mod Power
pub mod Single
