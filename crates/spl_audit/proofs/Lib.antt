pub mod Beside
pub mod Begins
pub mod Least
pub mod Pairs
pub mod Searches
pub mod Benches
pub mod Peeks
pub mod Audits
