mod Bounded
mod Planned
