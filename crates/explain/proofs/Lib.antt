-- Laws of the definitions.
pub mod Cases
pub mod Explaining
pub mod Results
