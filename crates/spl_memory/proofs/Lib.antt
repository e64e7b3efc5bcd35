mod Marked
mod Held
mod Kept
mod Told
mod Histories
mod Streams
mod Blanks
