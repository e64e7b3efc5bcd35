mod Leaves
mod Counts
mod Appending
mod Checkpoints
mod Findings
mod Turns
pub mod Keeps
mod Stopped
mod Shut
