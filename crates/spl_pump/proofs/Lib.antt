pub mod Streams
pub mod Wires
pub mod Carrying
pub mod Messages
pub mod Meetings
pub mod Honest
pub mod Lies
pub mod Taking
