pub mod Kept
pub mod EachTable
