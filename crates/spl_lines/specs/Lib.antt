pub mod Lines
pub mod Due
pub mod Feed
pub mod Tasks
