pub mod Decided
pub mod Positions
