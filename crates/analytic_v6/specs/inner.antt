-- Definitions that only the contracts of private functions cite; no reader of the public contract needs them.
pub mod Over
