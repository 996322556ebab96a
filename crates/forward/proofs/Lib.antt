-- Laws of the definitions.
pub mod Agreement
pub mod Early
pub mod Unread
