pub mod Bodies
pub mod Messages
pub mod Changes
pub mod Forms
pub mod Grouping
pub mod Packing
pub mod Bounds
