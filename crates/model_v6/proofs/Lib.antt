-- Laws of the definitions.
pub mod Next
pub mod Results
