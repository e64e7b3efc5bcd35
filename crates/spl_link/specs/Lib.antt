pub mod Greetings
pub mod Heard
pub mod Sides
