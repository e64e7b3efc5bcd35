pub mod Run
pub mod Faults
pub mod Moments
pub mod Stops
pub mod Steps
pub mod Calms
