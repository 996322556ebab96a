-- What the cut product's steps need.
pub mod Halves
