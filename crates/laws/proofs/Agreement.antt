-- Laws of the definitions.
pub mod Path
pub mod Steps
pub mod Within
pub mod Faults
pub mod Ends
pub mod Reverse
pub mod Columns
pub mod Walk
pub mod Prefix
pub mod Card
