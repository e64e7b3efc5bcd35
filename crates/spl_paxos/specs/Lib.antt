pub mod Plans
pub mod Members
pub mod Promises
pub mod Leaders
pub mod Durable
pub mod Lines
pub mod Texts
