pub mod Formed
pub mod Room
