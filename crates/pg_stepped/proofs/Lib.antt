pub mod Replaying
pub mod Going
