pub mod CalmLines
mod FewMessages
mod FewSends
mod FlatFits
pub mod OneRun
mod SmallCells
mod TameCalms
mod Texts
pub mod Wholes
