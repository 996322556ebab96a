pub mod Derivatives
pub mod Search
pub mod Start
