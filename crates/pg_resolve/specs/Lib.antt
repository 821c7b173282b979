pub mod Scope
pub mod Resolved
pub mod Causes
