pub mod Literals
pub mod Ends
pub mod Settled
pub mod Zeros
pub mod Logs
pub mod Labels
pub mod Weightless
