pub mod FiniteEntries
pub mod FrozenEntries
pub mod Outcome
pub mod Passes
pub mod StepRecords
