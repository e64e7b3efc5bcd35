mod Sizes
mod Forms
pub mod Images
pub mod Gates
mod Walks
pub mod Pieces
mod Readings
pub mod Appends
mod Makes
mod Clears
mod Fills
pub mod Heads
mod Stops
