pub mod Orders
pub mod Hearing
pub mod Steps
pub mod LineLaws
pub mod Preparing
pub mod Counting
