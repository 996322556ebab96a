pub mod Curve
pub mod Params
pub mod Stability
pub mod Step
pub mod WeightsRead
