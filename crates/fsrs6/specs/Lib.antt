pub mod Losses
pub mod Numbers
pub mod Places
pub mod Step
pub mod Study
pub mod Why
