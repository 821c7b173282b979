pub mod Fronts
pub mod TurnedAway
pub mod Outcomes
pub mod Answered
