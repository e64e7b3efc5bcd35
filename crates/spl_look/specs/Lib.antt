pub mod Owners
pub mod Questions
pub mod Reading
pub mod Telling
