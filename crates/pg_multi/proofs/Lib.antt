pub mod Finds
pub mod Ascending
pub mod Strengths
pub mod Holders
pub mod Blockers
