pub mod Lists
pub mod Asks
pub mod Reading
pub mod Logs
pub mod Making
