pub mod Calm
pub mod Bound
