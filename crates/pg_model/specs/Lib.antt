pub mod Limits
pub mod Kinds
pub mod Statements
pub mod Scripts
pub mod Errors
pub mod Texts
pub mod Printed
