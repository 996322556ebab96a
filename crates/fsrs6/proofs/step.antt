-- What the step's record holds.
pub mod Numbers
