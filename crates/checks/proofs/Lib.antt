pub mod Chain
pub mod Longer
pub mod OneFault
pub mod Orders
pub mod Placed
