-- Lemmas from which the laws of the layout of ten columns are proved.
pub mod Apart
pub mod Stored
