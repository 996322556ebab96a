-- pow from its logarithm.
pub mod Raised
pub mod One
pub mod At
pub mod Laws
