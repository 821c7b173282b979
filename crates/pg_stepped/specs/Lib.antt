pub mod Setups
pub mod Runs
