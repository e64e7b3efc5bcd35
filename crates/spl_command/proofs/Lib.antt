pub mod Changes
pub mod Findings
pub mod Runs
pub mod Shorts
pub mod Sizes
pub mod Valid
