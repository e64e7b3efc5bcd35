mod Items
mod Bounds
mod Counts
mod Texts
mod Parts
mod Free
mod Lengths
