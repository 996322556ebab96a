pub mod Reasons
pub mod Results
pub mod Step
