pub mod Parts
pub mod Kinds
pub mod Whole
pub mod Expected
pub mod Runs
pub mod Readers
