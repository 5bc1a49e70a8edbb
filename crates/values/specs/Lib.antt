pub mod Nearness
pub mod Regions
