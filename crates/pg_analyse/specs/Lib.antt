pub mod Built
pub mod Queries
pub mod Tables
pub mod Inserts
pub mod Changes
pub mod Analysis
pub mod Laws
