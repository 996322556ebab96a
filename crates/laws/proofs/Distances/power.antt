-- How near the power lies to document 01's E.
pub mod Steps
pub mod Places
pub mod Chain
pub mod Polynomial
pub mod Part
pub mod Table
pub mod Significand
pub mod Near
