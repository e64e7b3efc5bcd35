pub mod Draws
pub mod Circuits
pub mod Batches
pub mod Generated
