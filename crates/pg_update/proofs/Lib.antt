mod Rows
mod Seen
mod Looked
mod Choices
mod Staged
mod Doing
mod Planned
mod Bounded
