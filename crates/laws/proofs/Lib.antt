pub mod Distances
pub mod Agreement
pub mod Values
pub mod Ranges
