pub mod Ascents
pub mod Order
pub mod Sorting
pub mod Valid
pub mod Findings
pub mod Lives
mod Places
