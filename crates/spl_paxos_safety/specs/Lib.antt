pub mod Begun
pub mod Settling
pub mod Examples
pub mod Written
