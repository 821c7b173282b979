-- The words of the contracts of sources and sinks.
pub mod Causes
pub mod Writes
pub mod Bytes
pub mod Page
pub mod Reads
