-- The reading of a script, in the order in which it is explained.
pub mod Bytes
pub mod Headings
pub mod Built
pub mod Appearances
pub mod Parts
pub mod Reasons
pub mod Reading
pub mod Drafts
pub mod Laws
