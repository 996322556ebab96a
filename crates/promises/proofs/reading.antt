-- Demand 3, piece by piece.
pub mod Some
pub mod Both
pub mod Box
pub mod Steps
pub mod Any
pub mod Prefix
pub mod Card
