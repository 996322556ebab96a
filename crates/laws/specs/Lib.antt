pub mod Distances
pub mod KernelCalls
pub mod Numbers
