pub mod Hints
pub mod Runs
