pub mod Moves
pub mod Wires
pub mod Idle
pub mod Prefixes
