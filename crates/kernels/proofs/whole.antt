-- Whole numbers of either sign, and the words that hold them.
pub mod Divide
pub mod Words
