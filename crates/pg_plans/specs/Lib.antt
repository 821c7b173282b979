pub mod Answers
pub mod LentRows
