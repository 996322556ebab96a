pub mod Literals
pub mod Unread
