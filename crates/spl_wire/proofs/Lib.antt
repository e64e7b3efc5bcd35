pub mod Groups
pub mod Short
pub mod Small
pub mod Sizes
pub mod Packs
pub mod Bounds
