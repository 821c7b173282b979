pub mod Strengths
pub mod Locks
