mod Lanes
mod Blocks
