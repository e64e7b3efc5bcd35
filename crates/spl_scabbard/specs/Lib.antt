pub mod Checks
pub mod Kept
pub mod Readers
pub mod Same
