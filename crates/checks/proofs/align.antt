pub mod Counted
pub mod First
