-- The digits of one word and of two.
pub mod Sizes
