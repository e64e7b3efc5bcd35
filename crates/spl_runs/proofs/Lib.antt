mod Causes
pub mod Plans
pub mod Tasks
pub mod Schedules
mod Running
mod Steps
mod Sources
mod Ends
mod Calms
pub mod CalmRest
pub mod CalmSteps
mod Halting
