pub mod Doings
pub mod Deployments
