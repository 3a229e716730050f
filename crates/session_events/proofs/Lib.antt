pub mod Ticking
pub mod Regions
pub mod Standing
