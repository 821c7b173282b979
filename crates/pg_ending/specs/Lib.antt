-- A run ends where a list of numbers, its weight, falls with each step.
pub mod Weight
pub mod Runs
pub mod Totals
pub mod Countdown
