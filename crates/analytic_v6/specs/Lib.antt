pub mod Answers
pub mod Cards
pub mod Prefixes
pub mod Results
pub mod Step
pub mod inner
