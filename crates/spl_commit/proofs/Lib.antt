pub mod Index
pub mod Positions
pub mod Keyed
pub mod RowSteps
pub mod ChangeSteps
pub mod Packs
