mod Ascii
mod Chains
mod Floats
mod Keys
