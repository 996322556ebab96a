-- The significand's sizes, its rounding, the three answers of a power, and the fields of a pattern.
pub mod Sizes
pub mod Assemble
pub mod Answers
pub mod Fields
