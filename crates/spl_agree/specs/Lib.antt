pub mod Member
pub mod Rows
pub mod Fits
pub mod World
pub mod Agreement
pub mod Pack
