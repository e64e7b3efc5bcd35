pub mod Couplings
pub mod Own
pub mod Worlds
pub mod OneList
pub mod Moments
