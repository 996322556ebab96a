-- Laws of the definitions.
pub mod Calls
pub mod Entry
pub mod Laws
pub mod Left
pub mod Results
