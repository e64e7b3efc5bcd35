pub mod Frames
pub mod First
pub mod Bodies
pub mod Joined
pub mod Hearing
pub mod Pieces
