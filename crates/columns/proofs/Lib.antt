pub mod Before
pub mod Kept
pub mod Left
