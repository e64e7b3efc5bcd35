pub mod Leading
pub mod Listing
pub mod Digits
pub mod Making
pub mod Saying
pub mod Clashing
pub mod Deciding
pub mod Bounding
