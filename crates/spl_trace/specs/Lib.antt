pub mod Traced
pub mod Heard
pub mod Tracers
