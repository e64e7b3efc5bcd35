pub mod Cells
pub mod Batches
pub mod Events
pub mod Plans
pub mod Changes
pub mod Valid
pub mod Pack
pub mod Idle
