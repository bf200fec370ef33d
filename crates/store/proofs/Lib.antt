pub mod Answering
pub mod Slices
pub mod Unread
pub mod Joining
