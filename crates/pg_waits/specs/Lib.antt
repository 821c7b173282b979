pub mod Slots
pub mod Chains
pub mod Cycles
pub mod Effects
