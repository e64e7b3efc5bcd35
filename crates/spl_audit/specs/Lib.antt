pub mod Clashes
pub mod Keepers
pub mod Searching
pub mod Reporting
pub mod Audited
pub mod Texts
pub mod Runs
pub mod Audit
