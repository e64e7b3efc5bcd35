mod Agreed
mod Alike
mod Asked
mod Beginnings
mod Complete
mod Ends
mod Gens
mod Limits
mod Pieces
mod Statuses
mod Texts
pub mod Taking
pub mod Traced
pub mod Places
pub mod GoingOn
pub mod Finding
pub mod Seats
pub mod Ending
pub mod Tasks
pub mod EndsOfRuns
pub mod Leaving
pub mod Keeping
pub mod Folding
pub mod Audits
