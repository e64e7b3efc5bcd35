pub mod Booleans
pub mod Tests
