pub mod Zeros
pub mod Nodes
pub mod PlainRoot
pub mod Parts
pub mod Digits
pub mod Writes
pub mod Steps
pub mod Prefixes
pub mod Bytes
mod Compared
pub mod Covers
pub mod Runs
pub mod Thin
pub mod Drafts
pub mod Feet
pub mod Turned
