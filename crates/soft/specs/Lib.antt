pub mod Fma
pub mod HalfAway
pub mod Narrow
pub mod Units
pub mod inner
