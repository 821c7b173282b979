mod Kept
mod Memoryless
mod Mirror
