pub mod Penalty
