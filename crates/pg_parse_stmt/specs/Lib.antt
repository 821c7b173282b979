-- The grammar of statements, in the order in which it is explained.
pub mod Words
pub mod Forms
pub mod Grammar
pub mod Behind
pub mod Ranks
pub mod Expected
pub mod Spellings
pub mod After
pub mod Laws
pub mod Places
