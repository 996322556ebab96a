-- Laws of the definitions.
pub mod Entry
pub mod Laws
pub mod Results
