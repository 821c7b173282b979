pub mod Lists
pub mod Slots
pub mod Undone
pub mod Latest
