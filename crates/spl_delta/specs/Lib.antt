pub mod Watches
pub mod Takers
pub mod Kept
