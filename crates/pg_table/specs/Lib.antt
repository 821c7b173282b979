pub mod States
pub mod Holds
pub mod Lending
pub mod Scanned
