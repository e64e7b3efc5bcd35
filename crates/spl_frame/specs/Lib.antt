pub mod Buffer
pub mod Frames
pub mod Heard
