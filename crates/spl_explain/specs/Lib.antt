pub mod Forms
pub mod Explained
pub mod Objects
