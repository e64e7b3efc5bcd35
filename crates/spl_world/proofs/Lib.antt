pub mod Common
mod About
pub mod Calms
pub mod Results
pub mod Seating
mod Posting
pub mod Moving
pub mod Handling
pub mod Leaving
pub mod Sparing
pub mod Pairing
pub mod Reading
pub mod Steps
pub mod Turns
pub mod Slots
pub mod Standing
pub mod Telling
pub mod Cutting
pub mod Picking
pub mod Holding
pub mod HoldingNow
pub mod HoldingLines
pub mod HoldingSeats
pub mod Ending
pub mod EndingLines
pub mod Linking
pub mod Opened
pub mod Origins
pub mod Carried
pub mod Cells
pub mod Onward
pub mod Seats
pub mod Cursor
pub mod Stepping
mod Idling
pub mod Calls
mod Happening
mod NodeCalls
