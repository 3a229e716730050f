pub mod Endings
pub mod Gathered
