pub mod Parts
pub mod Joining
