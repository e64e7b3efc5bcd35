pub mod Counting
pub mod Pairs
pub mod Choices
pub mod Anew
pub mod Stopped
pub mod Calls
