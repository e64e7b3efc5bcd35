pub mod Memory
pub mod ImageLaws
pub mod Devices
pub mod Sources
