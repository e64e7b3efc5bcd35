pub mod Talks
pub mod Connections
