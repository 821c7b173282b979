pub mod Joined
pub mod Fronts
pub mod Values
pub mod Rows
pub mod Named
pub mod Cycles
pub mod Failures
pub mod Entries
