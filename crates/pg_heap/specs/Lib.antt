pub mod Rows
pub mod Seen
pub mod Current
pub mod Slots
pub mod Pieces
pub mod Written
