pub mod Lines
pub mod Starting
pub mod Bounds
pub mod Standing
pub mod Halting
pub mod Reading
pub mod Endings
pub mod Flushing
pub mod Pairs
pub mod Processes
pub mod Moves
pub mod Seating
pub mod Hearings
pub mod Answering
pub mod Stopping
pub mod SeatUp
pub mod Placing
pub mod Others
pub mod Lifting
pub mod Seated
pub mod Benches
pub mod Begun
pub mod Leading
pub mod Stepping
mod Deciding
pub mod GroupComplete
mod Decided
