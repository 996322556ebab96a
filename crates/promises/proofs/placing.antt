-- K7, piece by piece: where the first fault is.
pub mod Search
pub mod Columns
pub mod Numbers
