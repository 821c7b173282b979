pub mod Mapped
pub mod Distinct
pub mod Same
pub mod Fronts
