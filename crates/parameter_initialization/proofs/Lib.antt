-- Laws of the definitions.
pub mod Curves
pub mod Entry
pub mod Laws
pub mod Literals
pub mod Range
pub mod Results
pub mod Rounds
pub mod Rows
