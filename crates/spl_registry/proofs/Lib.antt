pub mod Registries
pub mod Trees
