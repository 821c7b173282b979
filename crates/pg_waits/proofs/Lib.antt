pub mod Lists
pub mod Chains
pub mod Rings
pub mod Acyclic
pub mod Ends
