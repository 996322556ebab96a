-- A line for each public function: its contract leaves one outcome; and where it lends and can refuse, a refused call writes nothing.
pub mod Tuples
pub mod Words
pub mod Refused
pub mod Kernels
pub mod Formulas
pub mod Steps
pub mod Checks
pub mod Columns
pub mod StepRecords
pub mod Entries
pub mod Losses
pub mod Face
pub mod Kept
pub mod Frozen
pub mod Finite
