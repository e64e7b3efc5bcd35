pub mod Buffers
pub mod FirstFrames
pub mod Hearing
pub mod Streams
