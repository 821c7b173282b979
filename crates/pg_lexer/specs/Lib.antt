-- In the order in which they are explained.
pub mod Bytes
pub mod Keywords
pub mod Signs
pub mod Spans
pub mod Lexemes
pub mod Reading
pub mod Laws
pub mod Found
