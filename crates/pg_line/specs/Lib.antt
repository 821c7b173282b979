-- What a line of a script says, in the order in which it is explained.
pub mod Words
pub mod Sessions
pub mod Statements
pub mod Forms
pub mod Laws
