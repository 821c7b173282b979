pub mod Ordered
pub mod Pieces
pub mod Bounds
pub mod Commits
pub mod Kept
