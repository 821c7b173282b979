-- Lemmas of the reader of lines.
pub mod Words
pub mod Sessions
pub mod Forms
pub mod Faults
pub mod Outcomes
pub mod Within
