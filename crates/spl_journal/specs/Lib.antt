pub mod Gate
pub mod Records
pub mod Journals
pub mod Faults
pub mod Reads
pub mod Clear
