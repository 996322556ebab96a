-- exp's argument in units of a step, and its answers by the fields of x's pattern.
pub mod Turns
pub mod Cases
