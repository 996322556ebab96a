-- Polynomials with natural coefficients at fractions, and what P does at sums, at L's series and at ln's.
pub mod Poly
pub mod Laws
pub mod Two
pub mod Cap
pub mod Terms
pub mod Taylor
pub mod Sums
pub mod Near
pub mod Series
pub mod Odds
pub mod Below
pub mod Frac
pub mod Chain
pub mod Floor
