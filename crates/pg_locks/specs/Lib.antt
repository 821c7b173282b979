pub mod Locks
pub mod Notes
