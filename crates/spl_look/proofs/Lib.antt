pub mod Bindings
pub mod Owned
pub mod ReadsOnly
pub mod Recorded
pub mod Told
